-- An item that is applied at once, to the builder of its slot.
use Rattle.std.proofs.Common.{◌≡◌, ℕ, ◌+◌, ◌*◌, ◌%◌, ◌/◌, ◌<◌, List, map, length, get_or, set, refl, sym, ap, ◌∙◌, arith, Result, Ok, Err, IfOk, OnErr, OnOk}
use Rattle.std.specs.List.{enumerate_from}
use Rattle.std.proofs.lemmas.List.{length-map, length-set, map-set, set-get_or}
use Rattle.std.proofs.Math.Nat.{mod-lt, mod-add-div'}
use Rattle.head_deal.specs.Jobs.{Job, Finished}
use Rattle.head_deal.specs.Endings.{item_at, told_of, is_of, slots_of, jobs_of}
use Rattle.head_deal.specs.Dealing.{strided, Dealing, Share, course}
use Rattle.head_deal.specs.Holding.{held, IsShare, Holds}
use Rattle.head_deal.specs.AtOnce.{IsChanged, PartApplied}
use Rattle.head_deal.proofs.Entries.{length-strided}
use Rattle.head_deal.proofs.Holding.{holds_is}
use Rattle.head_deal.proofs.Places.{item_at_place}
use Rattle.head_deal.proofs.Stepping.{get_or_value, holds_moved, seat_at, set-strided, share_with, strided-at, worker_of}

-- a part whose builder at an element is another
pub part_changed : {B V I O : Type 0} (value : B → V) (after : V → I → V) (outcome : V → I → O) (tag m w all_slots all_jobs : ℕ) (bs : List B) (jobs : List (Job I O)) (e : ℕ) (b b' : B) → b ≡ get_or bs e b → e < length bs
    → IsChanged (share_with value after outcome tag m w all_slots all_jobs (strided w m bs) jobs) e b b' (share_with value after outcome tag m w all_slots all_jobs (strided w m (set bs e b')) jobs)
part_changed value after outcome tag m w all_slots all_jobs bs jobs e b b' seat within =
    let l = length-strided w m bs in
    record {
      low = omega arith;
      was = strided-at w m bs e (w + e * m) b _ refl within (sym seat);
      is = ap (λ x. share_with value after outcome tag m w all_slots all_jobs x jobs) (sym (set-strided w m bs e (w + e * m) b' refl));
    }

-- a part, where an item was applied to the builder at an element
pub part_applied : {B V I O E : Type 0} (value : B → V) (after : V → I → V) (outcome : V → I → O) (old new : Share B I O) (element : ℕ) (item : I) (r : Result O E) (b b' : B) → IsChanged old element b b' new
    → OnOk r (value b' ≡ after (value b) item) → IfOk r (λ o. o ≡ outcome (value b) item) → OnErr r (value b' ≡ value b) → PartApplied value after outcome old element item r new
part_applied value after outcome old new element item (Ok o) b b' is changed told kept = (b, b', is, changed, told)
part_applied value after outcome old new element item (Err e) b b' is changed told kept = (b, b', is, kept)

module _ {B V I O : Type 0} (value : B → V) where
  -- the deal of parts one of which has another builder at an element
  pub record DealChanged (d : Dealing B I O) (slots count : ℕ) (parts : List (Share B I O)) (slot : ℕ) (b b' : B) : Type 0 where
    pub new : Dealing B I O
    pub holds : Holds new slots count parts
    pub low : slot < length d.builders
    pub was : get_or d.builders slot b ≡ b
    pub is : new ≡ record d { builders = set d.builders slot b' }

  pub deal_changed : (d : Dealing B I O) (slots count : ℕ) (parts : List (Share B I O)) (slot worker element : ℕ) (p p' : Share B I O) (b b' : B) → Holds d slots count parts → slot < length d.builders
      → worker ≡ slot % d.workers → element ≡ slot / d.workers → p ≡ get_or parts worker p → IsChanged p element b b' p' → DealChanged d slots count (set parts worker p') slot b b'
  deal_changed d slots count parts slot worker element p p' b b' h low of_worker of_element at t =
      let some = h.some in
      let under : worker < d.workers = (let m = mod-lt slot some in omega arith) in
      let of : IsShare d worker p = rw (← at) at (h.shares worker p under) in
      let s = p.worker + element * p.workers in
      let at_slot : s ≡ slot = ap (λ x. x + element * p.workers) of.worker ∙ ap (λ x. worker + element * x) of.workers ∙ ap (λ x. x + element * d.workers) of_worker ∙ ap (λ x. slot % d.workers + x * d.workers) of_element ∙ mod-add-div' slot d.workers in
      let a = seat_at (is_of d.workers worker) 0 d.builders element s b b' (rw of.slots at t.low) (rw of.slots at t.was) in
      let e : a.place ≡ slot = (let x = a.slot in omega arith) in
      let bs = set d.builders a.place b' in
      let slots' : p'.slots ≡ slots_of d.workers worker (enumerate_from 0 bs) = ap (λ y. y.slots) t.is ∙ ap (λ y. set y element (s, b')) of.slots ∙ a.same in
      let jobs' : p'.jobs ≡ jobs_of d.workers worker d.jobs = ap (λ y. y.jobs) t.is ∙ of.jobs in
      let len : length p'.slots ≡ length p.slots = ap (λ y. length y.slots) t.is ∙ length-set p.slots element (s, b') in
      record {
        new = record d { builders = bs };
        holds = holds_moved d slots count parts worker p p' bs d.jobs h under at (length-set d.builders a.place b') refl h.numbers h.within
            (ap (λ y. y.tag) t.is, ap (λ y. y.workers) t.is, ap (λ y. y.worker) t.is, len)
            slots' jobs'
            (λ k apart. (a.others (is_of d.workers k) (worker_of d.workers worker s k a.mine apart), refl));
        low = low;
        was = rw (← e) a.at;
        is = ap (λ k. record d { builders = set d.builders k b' }) e;
      }

  -- the deal that the parts hold is that one
  pub held_changed : (d : Dealing B I O) (slots count : ℕ) (parts : List (Share B I O)) (slot : ℕ) (b b' : B) → DealChanged d slots count parts slot b b' → held d.tag d.workers slots count parts ≡ record d { builders = set d.builders slot b' }
  held_changed d slots count parts slot b b' t =
      ap (λ x. held x d.workers slots count parts) (sym (ap (λ x. x.tag) t.is)) ∙ ap (λ x. held t.new.tag x slots count parts) (sym (ap (λ x. x.workers) t.is)) ∙ holds_is t.new slots count parts t.holds ∙ t.is

  -- the slots where an item was applied to the builder of one, and what is told of it
  pub slots_applied : (after : V → I → V) (outcome : V → I → O) (d : Dealing B I O) (slot : ℕ) (item : I) (b b' : B) → slot < length d.builders → get_or d.builders slot b ≡ b → value b' ≡ after (value b) item
      → ((course value (record d { builders = set d.builders slot b' })).slots ≡ map (item_at after slot item) (course value d).slots) × (told_of outcome slot item (course value d).slots ≡ Finished (outcome (value b) item))
  slots_applied after outcome d slot item b b' low was changed =
      let here = item_at_place after outcome 0 slot slot item (map value d.builders) (value b) (omega arith) (omega (arith, length-map d.builders value)) (get_or_value value d.builders slot b was low) in
      (ap (λ x. enumerate_from 0 x) (map-set value d.builders slot b' ∙ ap (λ x. set (map value d.builders) slot x) changed) ∙ sym here.0, here.1)

  -- the course where the value of a builder is unchanged
  pub course_kept : (d : Dealing B I O) (slot : ℕ) (b b' : B) → slot < length d.builders → get_or d.builders slot b ≡ b → value b' ≡ value b → course value (record d { builders = set d.builders slot b' }) ≡ course value d
  course_kept d slot b b' low was kept =
      let v : map value (set d.builders slot b') ≡ map value d.builders =
      map-set value d.builders slot b' ∙ ap (λ x. set (map value d.builders) slot x) (kept ∙ sym (get_or_value value d.builders slot b was low)) ∙ set-get_or (map value d.builders) slot (value b) in
      ap (λ y. record { workers = d.workers; slots = enumerate_from 0 y; jobs = d.jobs }) v

  -- the deal that the parts hold, where an item was applied to the builder at an element of one of them
  pub record DealApplied {E : Type 0} (after : V → I → V) (outcome : V → I → O) (d : Dealing B I O) (slots count : ℕ) (parts : List (Share B I O)) (slot : ℕ) (item : I) (r : Result O E) (v : Dealing B I O) : Type 0 where
    pub holds : Holds v slots count parts
    pub slots_are : OnOk r ((course value v).slots ≡ map (item_at after slot item) (course value d).slots)
    pub told : IfOk r (λ o. told_of outcome slot item (course value d).slots ≡ Finished o)
    pub refused : OnErr r (course value v ≡ course value d)
    pub jobs : v.jobs ≡ d.jobs
    pub at_workers : v.workers ≡ d.workers
    pub builders : length v.builders ≡ length d.builders

  applied_to : {E : Type 0} (after : V → I → V) (outcome : V → I → O) (d : Dealing B I O) (slots count : ℕ) (parts : List (Share B I O)) (slot : ℕ) (item : I) (r : Result O E) (b b' : B) (v : Dealing B I O) → DealChanged d slots count parts slot b b'
      → v ≡ record d { builders = set d.builders slot b' } → OnOk r (value b' ≡ after (value b) item) → IfOk r (λ o. o ≡ outcome (value b) item) → OnErr r (value b' ≡ value b) → DealApplied after outcome d slots count parts slot item r v
  applied_to after outcome d slots count parts slot item (Ok o) b b' v m e changed told kept =
      let a = slots_applied after outcome d slot item b b' m.low m.was changed in
      record {
        holds = rw (e ∙ sym m.is) m.holds;
        slots_are = rw e a.0;
        told = a.1 ∙ ap (λ x. Finished x) (sym told);
        refused = tt;
        jobs = rw e refl;
        at_workers = rw e refl;
        builders = rw e (length-set d.builders slot b');
      }
  applied_to after outcome d slots count parts slot item (Err x) b b' v m e changed told kept =
      record {
        holds = rw (e ∙ sym m.is) m.holds;
        slots_are = tt;
        told = tt;
        refused = rw e (course_kept d slot b b' m.low m.was kept);
        jobs = rw e refl;
        at_workers = rw e refl;
        builders = rw e (length-set d.builders slot b');
      }

  pub deal_applied : {E : Type 0} (after : V → I → V) (outcome : V → I → O) (d : Dealing B I O) (slots count : ℕ) (parts : List (Share B I O)) (slot worker element : ℕ) (item : I) (p p' : Share B I O) (r : Result O E) → Holds d slots count parts
      → slot < length d.builders → worker ≡ slot % d.workers → element ≡ slot / d.workers → p ≡ get_or parts worker p → PartApplied value after outcome p element item r p'
      → DealApplied after outcome d slots count (set parts worker p') slot item r (held d.tag d.workers slots count (set parts worker p'))
  deal_applied after outcome d slots count parts slot worker element item p p' (Ok o) h low of_worker of_element at (b, b', is, changed, told) =
      let m = deal_changed d slots count parts slot worker element p p' b b' h low of_worker of_element at is in
      applied_to after outcome d slots count (set parts worker p') slot item (Ok o) b b' _ m (held_changed d slots count (set parts worker p') slot b b' m) changed told tt
  deal_applied after outcome d slots count parts slot worker element item p p' (Err x) h low of_worker of_element at (b, b', is, kept) =
      let m = deal_changed d slots count parts slot worker element p p' b b' h low of_worker of_element at is in
      applied_to after outcome d slots count (set parts worker p') slot item (Err x) b b' _ m (held_changed d slots count (set parts worker p') slot b b' m) tt tt kept
