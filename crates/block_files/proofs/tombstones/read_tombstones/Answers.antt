use Rattle.std.proofs.Common.{rules, ◌≡◌, ◌∙◌, ap, arith, length, refl, Err}
use Rattle.block_files.specs.declared.tombstones.TombstonesFault.TheVariants.{BadTombstones}
use Rattle.block_files.specs.Tombstones.{entries_text, tombstones_text}
use Rattle.block_files.proofs.TombstoneLaws.{text_length, text_entries, other_tombstones}
use Rattle.block_files.proofs.tombstones.read_tombstones.Goals as goal

pub returns-then-bytes-clause-bad : goal.returns-then-bytes-clause-bad
returns-then-bytes-clause-bad c = λ _ ts fit e. absurd (omega (arith, ap length e, text_length ts, c.if-bytes.true))

pub returns-in_err-tombstones-clause-bad : goal.returns-in_err-tombstones-clause-bad
returns-in_err-tombstones-clause-bad c = λ was ts fit e.
    let bad : c.read_entries.result ≡ Err BadTombstones = search rules in
    let entries : c.split_at-2.result.0.now ≡ entries_text ts = text_entries c.args.bytes.now c.split_at.result.1.now c.split_at-2.result.0.now (length c.split_at.result.1.now) ts c.split_at.ensures.back refl c.split_at-2.ensures.front e in
    c.read_entries.ensures.bad bad ts fit entries

pub returns-then-ne-clause-bad : goal.returns-then-ne-clause-bad
returns-then-ne-clause-bad c = λ _ ts fit e.
    let entries : c.split_at-2.result.0.now ≡ entries_text ts = text_entries c.args.bytes.now c.split_at.result.1.now c.split_at-2.result.0.now (length c.split_at.result.1.now) ts c.split_at.ensures.back refl c.split_at-2.ensures.front e in
    other_tombstones c.args.bytes.now c.as_slice.result.now c.in_ok-tombstones.tombstones.items ts (c.as_slice.ensures.value ∙ c.in_ok-again.ensures ∙ ap tombstones_text c.deref.ensures.value) c.if-ne.ensures
    (c.in_ok-tombstones.ensures.found ts fit entries) e

pub returns-clause-only : goal.returns-clause-only
returns-clause-only c = λ ts fit e.
    c.in_ok-tombstones.ensures.found ts fit (text_entries c.args.bytes.now c.split_at.result.1.now c.split_at-2.result.0.now (length c.split_at.result.1.now) ts c.split_at.ensures.back refl c.split_at-2.ensures.front e)
