use Rattle.std.proofs.Common.{◌≡◌, List, ℕ, ◌+◌, ◌*◌, [], refl, map, ap, ◌∙◌, get_or, zero-add}
use Rattle.std.proofs.lemmas.List.FromFn.{get_or-map-range_with_len}
use Rattle.std.specs.List.{range_with_len}
use Rattle.hw_bytes.specs.Checksum.{divided, divided_times}
use Rattle.hw_bytes.specs.declared.table.TheConstants.{TABLES}
use Rattle.hw_bytes.proofs.checksum.entry.Goals as goal

table_from : ℕ → List ℕ
table_from k = map (divided_times (8 * k + 8)) (range_with_len 0 256)

tables : TABLES ≡ map table_from (range_with_len 0 8)
unfolding divided divided_times table_from
tables = refl

pub returns : goal.returns
unfolding table_from
returns c =
    ap (λ (t : List (List ℕ)). get_or (get_or t c.args.k []) c.args.byte 0) tables
    ∙ ap (λ (t : List ℕ). get_or t c.args.byte 0) (get_or-map-range_with_len table_from 0 8 c.args.k c.args.k [] c.requires.place (zero-add c.args.k))
    ∙ get_or-map-range_with_len (divided_times (8 * c.args.k + 8)) 0 256 c.args.byte c.args.byte 0 c.requires.byte (zero-add c.args.byte)
