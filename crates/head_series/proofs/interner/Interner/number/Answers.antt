use Rattle.std.proofs.Common.{◌≡◌, ap, sym, subst, ◌∙◌, inl, arith, length, true, false, Some}
use Rattle.std.specs.Prelude.{map}
use Rattle.std.proofs.lemmas.List.{length-map, length-append}
use Rattle.head_series.specs.Rows.{AreDistinct}
use Rattle.head_series.proofs.Distinct.{distinct_push}
use Rattle.head_series.proofs.Places.{place_some, place_none, place-push, place_within, same_text_refl, texts_same, with_text_old, with_text_new, interned}
use Rattle.wal_record.specs.Labels.{same_text}
use Rattle.head_series.specs.Texts.{place, has_text}
use Rattle.head_series.proofs.interner.Interner.number.Goals as goal

pub returns-in-Some-clause-texts : goal.returns-in-Some-clause-texts
returns-in-Some-clause-texts c =
    sym (with_text_old c.args.self.now.texts c.args.text.now (place_some (same_text c.args.text.now) c.args.self.now.texts c.in-Some.number (sym c.in-Some.ensures)))

pub returns-in-Some-clause-room : goal.returns-in-Some-clause-room
returns-in-Some-clause-room c _ = inl (place_some (same_text c.args.text.now) c.args.self.now.texts c.in-Some.number (sym c.in-Some.ensures))

pub returns-then-number-self-clause-full : goal.returns-then-number-self-clause-full
returns-then-number-self-clause-full c _ = (
  place_none (same_text c.args.text.now) c.args.self.now.texts (sym c.in-None.ensures),
  (let seen : map (λ v. v.items) c.self.inside.texts.keys ≡ c.args.self.now.texts = ap (λ t. t.texts) c.self.view_is in
      let most : c.self.inside.most ≡ c.args.self.now.most = ap (λ t. t.most) c.self.view_is in
      let many = simp length-map at (ap length seen) in
      omega (arith, many, most, c.len-number.ensures.len, c.self.invariant.0)),
)

pub returns-clause-texts : goal.returns-clause-texts
returns-clause-texts c =
    let new : has_text c.args.self.now.texts c.args.text.now ≡ false = place_none (same_text c.args.text.now) c.args.self.now.texts (sym c.in-None.ensures) in
    interned (λ v. v.items) same_text c.self.inside.texts.keys c.insert_full.new.self.keys c.in_ok-text.text c.args.self.now.texts c.args.text.now
    (ap (λ t. t.texts) c.self.view_is) c.in_ok-text.ensures.items c.in_ok-insert_full.ensures.keys new
    ∙ sym (with_text_new c.args.self.now.texts c.args.text.now new)

pub returns-clause-number : goal.returns-clause-number
returns-clause-number c =
    let new : has_text c.args.self.now.texts c.args.text.now ≡ false = place_none (same_text c.args.text.now) c.args.self.now.texts (sym c.in-None.ensures) in
    let seen : map (λ v. v.items) c.self.inside.texts.keys ≡ c.args.self.now.texts = ap (λ t. t.texts) c.self.view_is in
    let many = simp length-map at (ap length seen) in
    ap (place (same_text c.args.text.now))
    (interned (λ v. v.items) same_text c.self.inside.texts.keys c.insert_full.new.self.keys c.in_ok-text.text c.args.self.now.texts c.args.text.now
    (ap (λ t. t.texts) c.self.view_is) c.in_ok-text.ensures.items c.in_ok-insert_full.ensures.keys new)
    ∙ place-push (same_text c.args.text.now) c.args.self.now.texts c.args.text.now new (same_text_refl c.args.text.now)
    ∙ ap Some (sym many ∙ sym c.len-number.ensures.len)

pub invariant_of-self-2 : goal.invariant_of-self-2
invariant_of-self-2 c =
    let new : has_text c.args.self.now.texts c.args.text.now ≡ false = place_none (same_text c.args.text.now) c.args.self.now.texts (sym c.in-None.ensures) in
    let seen : map (λ v. v.items) c.self.inside.texts.keys ≡ c.args.self.now.texts = ap (λ t. t.texts) c.self.view_is in
    let many = simp length-map at (ap length seen) in
    let grown = interned (λ v. v.items) same_text c.self.inside.texts.keys c.insert_full.new.self.keys c.in_ok-text.text c.args.self.now.texts c.args.text.now
    seen c.in_ok-text.ensures.items c.in_ok-insert_full.ensures.keys new in
    let longer = simp (length-map, length-append) at (ap length grown) in
    (omega (arith, longer, many, c.if-number-self.false, c.len-number.ensures.len), subst (AreDistinct same_text) (sym grown) (distinct_push same_text texts_same c.args.self.now.texts c.args.text.now (subst (AreDistinct same_text) seen c.self.invariant.1) new))

pub returns-in-Some-clause-within : goal.returns-in-Some-clause-within
returns-in-Some-clause-within c = place_within (same_text c.args.text.now) c.args.self.now.texts c.in-Some.number (sym c.in-Some.ensures)

pub returns-clause-within : goal.returns-clause-within
returns-clause-within c =
    let new : has_text c.args.self.now.texts c.args.text.now ≡ false = place_none (same_text c.args.text.now) c.args.self.now.texts (sym c.in-None.ensures) in
    let grown = interned (λ v. v.items) same_text c.self.inside.texts.keys c.insert_full.new.self.keys c.in_ok-text.text c.args.self.now.texts c.args.text.now
    (ap (λ t. t.texts) c.self.view_is) c.in_ok-text.ensures.items c.in_ok-insert_full.ensures.keys new in
    let many = simp length-map at (ap length (ap (λ t. t.texts) c.self.view_is)) in
    let longer = simp (length-map, length-append) at (ap length grown) in
    let kept : length (map (λ v. v.items) c.insert_full.new.self.keys) ≡ length c.insert_full.new.self.keys = (simp length-map) in
    omega (arith, longer, kept, many, c.len-number.ensures.len)

pub returns-in-Some-clause-limit : goal.returns-in-Some-clause-limit
returns-in-Some-clause-limit c new _ =
    let k : true ≡ false = sym (place_some (same_text c.args.text.now) c.args.self.now.texts c.in-Some.number (sym c.in-Some.ensures)) ∙ new in absurd (cc)

pub returns-then-number-self-clause-known : goal.returns-then-number-self-clause-known
returns-then-number-self-clause-known c old =
    let k : true ≡ false = sym old ∙ place_none (same_text c.args.text.now) c.args.self.now.texts (sym c.in-None.ensures) in absurd (cc)

pub returns-in_err-text-clause-known : goal.returns-in_err-text-clause-known
returns-in_err-text-clause-known c old =
    let k : true ≡ false = sym old ∙ place_none (same_text c.args.text.now) c.args.self.now.texts (sym c.in-None.ensures) in absurd (cc)

pub returns-in_err-insert_full-clause-known : goal.returns-in_err-insert_full-clause-known
returns-in_err-insert_full-clause-known c old =
    let k : true ≡ false = sym old ∙ place_none (same_text c.args.text.now) c.args.self.now.texts (sym c.in-None.ensures) in absurd (cc)
