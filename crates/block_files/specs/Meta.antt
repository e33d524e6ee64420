-- The meta.json of a block.
use Rattle.std.specs.Prelude.{ℕ, ℤ, pos, [], ◌∷◌, ◌++◌, replicate, unsigned_abs, int_lt, if◌then◌else◌, codes, decimal}
use Rattle.hw_bytes.specs.Sums.{Text}
use Rattle.block_files.specs.declared.meta.Meta.{Meta}

-- a signed number in decimal digits, with a minus sign if it is negative
abbrev pub signed_decimal : ℤ → Text
signed_decimal z = if int_lt z (pos 0) then codes "-" ++ decimal (unsigned_abs z) else decimal (unsigned_abs z)

-- a line that is indented by tabs
abbrev pub line : ℕ → Text → Text
line tabs text = replicate tabs 0x09 ++ text ++ 0x0A ∷ []

-- a text in quotation marks
abbrev pub quoted : Text → Text
quoted text = 0x22 ∷ text ++ 0x22 ∷ []

-- a name with its value
abbrev pub member : Text → Text → Text
member name value = quoted name ++ codes ": " ++ value

-- The text of meta.json.
unfoldable pub meta_text : Meta → Text
meta_text m =
    line 0 (codes "{")
    ++ line 1 (member (codes "ulid") (quoted m.ulid) ++ codes ",")
    ++ line 1 (member (codes "minTime") (signed_decimal m.min_time) ++ codes ",")
    ++ line 1 (member (codes "maxTime") (signed_decimal m.max_time) ++ codes ",")
    ++ line 1 (member (codes "stats") (codes "{"))
    ++ line 2 (member (codes "numSamples") (decimal m.samples) ++ codes ",")
    ++ line 2 (member (codes "numSeries") (decimal m.series) ++ codes ",")
    ++ line 2 (member (codes "numChunks") (decimal m.chunks))
    ++ line 1 (codes "},")
    ++ line 1 (member (codes "compaction") (codes "{"))
    ++ line 2 (member (codes "level") (codes "1,"))
    ++ line 2 (member (codes "sources") (codes "["))
    ++ line 3 (quoted m.ulid)
    ++ line 2 (codes "]")
    ++ line 1 (codes "},")
    ++ line 1 (member (codes "version") (codes "1"))
    ++ line 0 (codes "}")

-- The text between the two ULIDs.
unfoldable pub middle : Meta → Text
middle m =
    codes "\",\n\t\"minTime\": " ++ (signed_decimal m.min_time ++ (codes ",\n\t\"maxTime\": " ++ (signed_decimal m.max_time ++ (codes ",\n\t\"stats\": {\n\t\t\"numSamples\": " ++ (decimal m.samples
    ++ (codes ",\n\t\t\"numSeries\": " ++ (decimal m.series ++ (codes ",\n\t\t\"numChunks\": " ++ (decimal m.chunks ++ codes "\n\t},\n\t\"compaction\": {\n\t\t\"level\": 1,\n\t\t\"sources\": [\n\t\t\t\"")))))))))
