use Rattle.std.proofs.Common.{◌≡◌, ap, sym, subst, ◌∙◌, arith, length, false, Some, refl}
use Rattle.std.specs.Prelude.{map}
use Rattle.std.proofs.lemmas.List.{length-map, length-append}
use Rattle.head_series.specs.Rows.{AreDistinct}
use Rattle.head_series.proofs.Distinct.{distinct_push}
use Rattle.head_series.proofs.Places.{place_some, place_none, place-push, place_within, same_text_refl, texts_same, with_text_old, with_text_new, interned}
use Rattle.wal_record.specs.Labels.{same_text}
use Rattle.head_series.specs.Texts.{place, has_text}
use Rattle.head_series.proofs.interner.Interner.put.Goals as goal

pub returns-in-Some-clause-texts : goal.returns-in-Some-clause-texts
returns-in-Some-clause-texts c =
    let e = sym (c.in-Some.ensures ∙ ap (λ t. place (same_text t) c.args.self.now.texts) c.deref.ensures.value) in
    sym (with_text_old c.args.self.now.texts c.args.text.items (place_some (same_text c.args.text.items) c.args.self.now.texts c.in-Some.known e))

pub returns-in-Some-clause-within : goal.returns-in-Some-clause-within
returns-in-Some-clause-within c =
    place_within (same_text c.args.text.items) c.args.self.now.texts c.in-Some.known (sym (c.in-Some.ensures ∙ ap (λ t. place (same_text t) c.args.self.now.texts) c.deref.ensures.value))

pub returns-clause-texts : goal.returns-clause-texts
returns-clause-texts c =
    let new : has_text c.args.self.now.texts c.args.text.items ≡ false = place_none (same_text c.args.text.items) c.args.self.now.texts (sym (c.in-None.ensures ∙ ap (λ t. place (same_text t) c.args.self.now.texts) c.deref.ensures.value)) in
    interned (λ v. v.items) same_text c.self.inside.texts.keys c.insert_full.new.self.keys c.args.text c.args.self.now.texts c.args.text.items
    (ap (λ t. t.texts) c.self.view_is) refl c.in-Ok.ensures.keys new
    ∙ sym (with_text_new c.args.self.now.texts c.args.text.items new)

pub returns-clause-number : goal.returns-clause-number
returns-clause-number c =
    let new : has_text c.args.self.now.texts c.args.text.items ≡ false = place_none (same_text c.args.text.items) c.args.self.now.texts (sym (c.in-None.ensures ∙ ap (λ t. place (same_text t) c.args.self.now.texts) c.deref.ensures.value)) in
    let seen : map (λ v. v.items) c.self.inside.texts.keys ≡ c.args.self.now.texts = ap (λ t. t.texts) c.self.view_is in
    let many = simp length-map at (ap length seen) in
    ap (place (same_text c.args.text.items))
    (interned (λ v. v.items) same_text c.self.inside.texts.keys c.insert_full.new.self.keys c.args.text c.args.self.now.texts c.args.text.items
    seen refl c.in-Ok.ensures.keys new)
    ∙ place-push (same_text c.args.text.items) c.args.self.now.texts c.args.text.items new (same_text_refl c.args.text.items)
    ∙ ap Some (sym many ∙ sym c.len-number.ensures.len)

pub invariant_of-self : goal.invariant_of-self
invariant_of-self c =
    let new : has_text c.args.self.now.texts c.args.text.items ≡ false = place_none (same_text c.args.text.items) c.args.self.now.texts (sym (c.in-None.ensures ∙ ap (λ t. place (same_text t) c.args.self.now.texts) c.deref.ensures.value)) in
    let seen : map (λ v. v.items) c.self.inside.texts.keys ≡ c.args.self.now.texts = ap (λ t. t.texts) c.self.view_is in
    let many = simp length-map at (ap length seen) in
    let most = ap (λ t. t.most) c.self.view_is in
    let grown = interned (λ v. v.items) same_text c.self.inside.texts.keys c.insert_full.new.self.keys c.args.text c.args.self.now.texts c.args.text.items
    seen refl c.in-Ok.ensures.keys new in
    let longer = simp (length-map, length-append) at (ap length grown) in
    let few = c.requires.few new in
    (omega (arith, longer, many, few, most), subst (AreDistinct same_text) (sym grown) (distinct_push same_text texts_same c.args.self.now.texts c.args.text.items (subst (AreDistinct same_text) seen c.self.invariant.1) new))

pub returns-clause-within : goal.returns-clause-within
returns-clause-within c =
    let new : has_text c.args.self.now.texts c.args.text.items ≡ false = place_none (same_text c.args.text.items) c.args.self.now.texts (sym (c.in-None.ensures ∙ ap (λ t. place (same_text t) c.args.self.now.texts) c.deref.ensures.value)) in
    let grown = interned (λ v. v.items) same_text c.self.inside.texts.keys c.insert_full.new.self.keys c.args.text c.args.self.now.texts c.args.text.items
    (ap (λ t. t.texts) c.self.view_is) refl c.in-Ok.ensures.keys new in
    let many = simp length-map at (ap length (ap (λ t. t.texts) c.self.view_is)) in
    let longer = simp (length-map, length-append) at (ap length grown) in
    let kept : length (map (λ v. v.items) c.insert_full.new.self.keys) ≡ length c.insert_full.new.self.keys = (simp length-map) in
    omega (arith, longer, kept, many, c.len-number.ensures.len)
