-- The text of meta.json in longer pieces.
use Rattle.std.proofs.Common.{◌≡◌, ℕ, List, [], ◌∷◌, ◌++◌, length, take, drop, refl, sym, ap, ◌∙◌, ◌≤◌, append_assoc, arith}
use Rattle.std.specs.Prelude.{ℤ, pos, negsuc, FitsSigned, int_lt, false, codes, decimal}
use Rattle.std.specs.Int.{w64, cast_signed, cast_unsigned}
use Rattle.std.specs.Fmt.{signed_decimal as printed}
use Rattle.std.proofs.lemmas.Int.{to_z-of_z, ints}
use Rattle.std.proofs.lemmas.List.{take_at, length-append}
use Rattle.block_files.specs.declared.meta.Meta.{Meta}
use Rattle.block_files.specs.Meta.{meta_text, middle, signed_decimal, line, member}

joined : (u q c n w2 a w3 b l4 w5 s w6 r w7 k l8 l9 l10 l11 w12 l13 l14 l15 l16 : List ℕ)
    → (((((((((((((((((u ++ q) ++ c) ++ n) ++ (w2 ++ ((a ++ c) ++ n))) ++ (w3 ++ ((b ++ c) ++ n))) ++ l4) ++ (w5 ++ ((s ++ c) ++ n))) ++ (w6 ++ ((r ++ c) ++ n))) ++ (w7 ++ (k ++ n))) ++ l8) ++ l9) ++ l10) ++ l11) ++ (w12 ++ ((u ++ q) ++ n))) ++ l13) ++ l14) ++ l15) ++ l16
    ≡ u ++ (q ++ (c ++ (n ++ (w2 ++ (a ++ (c ++ (n ++ (w3 ++ (b ++ (c ++ (n ++ (l4 ++ (w5 ++ (s ++ (c ++ (n ++ (w6 ++ (r ++ (c ++ (n ++ (w7 ++ (k ++ (n ++ (l8 ++ (l9 ++ (l10 ++ (l11 ++ (w12 ++ (u ++ (q ++ (n ++ (l13 ++ (l14 ++ (l15 ++ l16))))))))))))))))))))))))))))))))))
joined u q c n w2 a w3 b l4 w5 s w6 r w7 k l8 l9 l10 l11 w12 l13 l14 l15 l16 = simp append_assoc

parted : (a u m e : List ℕ) → a ++ (u ++ (m ++ (u ++ e))) ≡ (((a ++ u) ++ m) ++ u) ++ e
parted a u m e = simp append_assoc

-- the middle as it is joined above
middle_is : (m : Meta) (rest : List ℕ) → middle m ++ rest ≡
    codes "\",\n\t\"minTime\": " ++ (signed_decimal m.min_time ++ (codes ",\n\t\"maxTime\": " ++ (signed_decimal m.max_time ++ (codes ",\n\t\"stats\": {\n\t\t\"numSamples\": " ++ (decimal m.samples
    ++ (codes ",\n\t\t\"numSeries\": " ++ (decimal m.series ++ (codes ",\n\t\t\"numChunks\": " ++ (decimal m.chunks ++ (codes "\n\t},\n\t\"compaction\": {\n\t\t\"level\": 1,\n\t\t\"sources\": [\n\t\t\t\"" ++ rest))))))))))
unfolding middle
middle_is m rest = by (codes "\",\n\t\"minTime\": ") (signed_decimal m.min_time) (codes ",\n\t\"maxTime\": ") (signed_decimal m.max_time) (codes ",\n\t\"stats\": {\n\t\t\"numSamples\": ") (decimal m.samples)
    (codes ",\n\t\t\"numSeries\": ") (decimal m.series) (codes ",\n\t\t\"numChunks\": ") (decimal m.chunks) (codes "\n\t},\n\t\"compaction\": {\n\t\t\"level\": 1,\n\t\t\"sources\": [\n\t\t\t\"") rest
  where
    by : (a b c d e f g h i j k r : List ℕ) → (a ++ (b ++ (c ++ (d ++ (e ++ (f ++ (g ++ (h ++ (i ++ (j ++ k)))))))))) ++ r ≡ a ++ (b ++ (c ++ (d ++ (e ++ (f ++ (g ++ (h ++ (i ++ (j ++ (k ++ r))))))))))
    by a b c d e f g h i j k r = simp append_assoc

pub meta_parts : (m : Meta) → meta_text m ≡ codes "{\n\t\"ulid\": \"" ++ (m.ulid ++ (middle m ++ (m.ulid ++ codes "\"\n\t\t]\n\t},\n\t\"version\": 1\n}\n")))
unfolding meta_text
meta_parts m =
    let whole = joined m.ulid (0x22 ∷ []) (codes ",") (0x0A ∷ []) (codes "\t\"minTime\": ") (signed_decimal m.min_time) (codes "\t\"maxTime\": ") (signed_decimal m.max_time) (line 1 (member (codes "stats") (codes "{")))
    (codes "\t\t\"numSamples\": ") (decimal m.samples) (codes "\t\t\"numSeries\": ") (decimal m.series) (codes "\t\t\"numChunks\": ") (decimal m.chunks) (line 1 (codes "},")) (line 1 (member (codes "compaction") (codes "{")))
    (line 2 (member (codes "level") (codes "1,"))) (line 2 (member (codes "sources") (codes "["))) (codes "\t\t\t\"") (line 2 (codes "]")) (line 1 (codes "},")) (line 1 (member (codes "version") (codes "1"))) (line 0 (codes "}")) in
    rw middle_is (ap (λ (t : List ℕ). codes "{\n\t\"ulid\": \"" ++ t) whole)

-- ---- what the code joins

-- numbers are printed as they are written here
printed_is : (z : ℤ) → printed z ≡ signed_decimal z
printed_is (pos n) = let no : int_lt (pos n) (pos 0) ≡ false = grind (arith, ints) in rw no refl
printed_is (negsuc n) = refl

passed_on : (z : ℤ) → FitsSigned w64 z → printed (cast_signed w64 (cast_unsigned w64 z)) ≡ signed_decimal z
passed_on z h = ap printed (to_z-of_z w64 z h) ∙ printed_is z

pub numbers_are : (m : Meta) (numbers : List ℕ) → FitsSigned w64 m.min_time → FitsSigned w64 m.max_time → numbers ≡
    codes "\",\n\t\"minTime\": " ++ (printed (cast_signed w64 (cast_unsigned w64 m.min_time)) ++ (codes ",\n\t\"maxTime\": " ++ (printed (cast_signed w64 (cast_unsigned w64 m.max_time)) ++ (codes ",\n\t\"stats\": {\n\t\t\"numSamples\": " ++ (decimal m.samples
    ++ (codes ",\n\t\t\"numSeries\": " ++ (decimal m.series ++ (codes ",\n\t\t\"numChunks\": " ++ (decimal m.chunks ++ codes "\n\t},\n\t\"compaction\": {\n\t\t\"level\": 1,\n\t\t\"sources\": [\n\t\t\t\"")))))))))
    → numbers ≡ middle m
unfolding middle
numbers_are m numbers f g e = e ∙ rw (passed_on m.min_time f, passed_on m.max_time g) refl

pub meta_joined : (m : Meta) (numbers : List ℕ) → numbers ≡ middle m → (((codes "{\n\t\"ulid\": \"" ++ m.ulid) ++ numbers) ++ m.ulid) ++ codes "\"\n\t\t]\n\t},\n\t\"version\": 1\n}\n" ≡ meta_text m
meta_joined m numbers e =
    ap (λ (t : List ℕ). (((codes "{\n\t\"ulid\": \"" ++ m.ulid) ++ t) ++ m.ulid) ++ codes "\"\n\t\t]\n\t},\n\t\"version\": 1\n}\n") e
    ∙ sym (parted (codes "{\n\t\"ulid\": \"") m.ulid (middle m) (codes "\"\n\t\t]\n\t},\n\t\"version\": 1\n}\n")) ∙ sym (meta_parts m)

-- five pieces, one after the other
pub five_joined : (v0 v1 v2 v3 v4 v5 a b c d e : List ℕ) → v0 ≡ [] → v1 ≡ v0 ++ a → v2 ≡ v1 ++ b → v3 ≡ v2 ++ c → v4 ≡ v3 ++ d → v5 ≡ v4 ++ e → v5 ≡ (((a ++ b) ++ c) ++ d) ++ e
five_joined v0 v1 v2 v3 v4 v5 a b c d e e0 e1 e2 e3 e4 e5 = rw (e5, e4, e3, e2, e1, e0) refl

-- ---- the ULID in the text

pub ulid_there : (m : Meta) (text rest digits : List ℕ) → text ≡ meta_text m → rest ≡ drop 12 text → digits ≡ take 26 rest → length m.ulid ≡ 26 → digits ≡ m.ulid
ulid_there m text rest digits e r d long =
    let behind : rest ≡ m.ulid ++ (middle m ++ (m.ulid ++ codes "\"\n\t\t]\n\t},\n\t\"version\": 1\n}\n")) = r ∙ ap (drop 12) (e ∙ meta_parts m) in
    d ∙ ap (take 26) behind ∙ take_at m.ulid (middle m ++ (m.ulid ++ codes "\"\n\t\t]\n\t},\n\t\"version\": 1\n}\n")) 26 long

pub ulid_fits : (m : Meta) (text : List ℕ) → text ≡ meta_text m → length m.ulid ≡ 26 → 38 ≤ length text
ulid_fits m text e long = omega (arith, ap length (e ∙ meta_parts m), length-append m.ulid (middle m ++ (m.ulid ++ codes "\"\n\t\t]\n\t},\n\t\"version\": 1\n}\n")), long)
