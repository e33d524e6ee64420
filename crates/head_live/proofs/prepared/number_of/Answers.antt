use Rattle.std.proofs.Common.{Some, ap, sym, ◌∙◌}
use Rattle.wal_record.specs.Labels.{same_labels}
use Rattle.head_series.specs.Texts.{place}
use Rattle.head_live.specs.Keys.{labels_of_keys}
use Rattle.head_live.proofs.KeyLemmas.{keys_with, place_key}
use Rattle.head_live.proofs.prepared.number_of.Goals as goal

pub returns-clause-sets : goal.returns-clause-sets
returns-clause-sets c = ap labels_of_keys c.in_ok-number.ensures.keys ∙ keys_with (record { labels = c.args.labels }) c.args.sets.now.keys

pub returns-clause-place : goal.returns-clause-place
returns-clause-place c =
    ap (λ ks. place (same_labels c.args.labels.value) (labels_of_keys ks)) c.in_ok-number.ensures.keys
    ∙ place_key (record { labels = c.args.labels }) c.args.sets.now.keys ∙ ap Some (sym c.in_ok-number.ensures.index)
