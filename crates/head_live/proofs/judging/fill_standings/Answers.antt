use Rattle.std.proofs.Common.{◌∙◌, ◌≡◌, ◌<◌, ◌∷◌, [], ap, sym, subst, refl, arith, length, length-append, get_or}
use Rattle.std.proofs.lemmas.List.{length-map}
use Rattle.head_live.specs.declared.set_key.SetKey.{SetKey}
use Rattle.head_live.specs.Judged.{IsStart, standing_at}
use Rattle.head_live.specs.Keys.{labels_of_keys}
use Rattle.head_live.specs.Sets.{set_in, sets_in}
use Rattle.head_live.proofs.AgainLemmas.{key_at}
use Rattle.head_live.proofs.StartLemmas.{starts_push}
use Rattle.head_live.proofs.judging.fill_standings.Goals as goal

pub loop-number-preserved : goal.loop-number-preserved
loop-number-preserved c =
    let content = c.args.head.now.content in
    let keys = c.args.sets.now in
    let numbers = c.args.numbers.now in
    let sets = sets_in (labels_of_keys keys) numbers in
    let old = c.loop-number.standings.items in
    let i = c.loop-number.number-index in
    let pushed = c.in_ok-push.ensures.items in
    let long = length-append old (c.standing_of.result ∷ []) in
    let many : length old ≡ i = c.loop-number.invariant.many in
    let below : i < length numbers = c.loop-number-test.true in
    let as_many : length sets ≡ length numbers = length-map numbers (set_in (labels_of_keys keys)) in
    let within : i < length sets = omega (arith, as_many, below) in
    let key = c.index-sets-number.result in
    let is : key.labels.value ≡ get_or sets i key.labels.value = key_at keys numbers i (get_or numbers i 0) key below refl (c.requires.numbers i 0 below) c.index-sets-number.is in
    let start : IsStart content key.labels.value c.standing_of.result = subst (λ (k : SetKey). IsStart content k.labels.value c.standing_of.result) (sym c.index-sets-number.is) c.standing_of.ensures.standing in
    record {
      many = ap length pushed ∙ omega (arith, long, many);
      each = λ j h. subst (λ ss. IsStart content (get_or sets j []) (standing_at ss j)) (sym pushed)
          (starts_push content sets old i key.labels.value c.standing_of.result within is many start c.loop-number.invariant.each j h);
      known = c.standing_of.ensures.known;
    }
