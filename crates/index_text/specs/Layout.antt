-- Elements one after another, each aligned by zeros before it.
use Rattle.std.specs.Prelude.{ℕ, ◌+◌, List, ◌++◌, length, map, take, replicate}
pub use Rattle.hw_bytes.specs.Padding.{padding}
pub use Rattle.hw_bytes.specs.Sums.{Text, number_at, is_number, sums}
unfoldable pub use Rattle.hw_bytes.specs.Sums.{sum_text}
use Rattle.std.specs.List.{fold, range_with_len}
use Rattle.hw_bytes.specs.Writing.{big_bytes, uvarint}

-- an element: its length in four bytes, its contents, and their checksum
abbrev pub framed : Text → Text
framed body = big_bytes 4 (length body) ++ body ++ sum_text body

-- an element: its length as a uvarint, its contents, and their checksum
abbrev pub counted : Text → Text
counted body = uvarint (length body) ++ body ++ sum_text body

-- a text with an aligned element appended
abbrev pub put : ℕ → Text → Text → Text
put align before element = before ++ replicate (padding align (length before)) 0 ++ element

-- a text with aligned elements appended
abbrev pub put_all : ℕ → Text → List Text → Text
put_all align before elements = fold (put align) before elements

-- the offset of the i-th of the appended elements: the length of the text before it, with its zeros
abbrev pub place : ℕ → Text → List Text → ℕ → ℕ
place align before elements i =
    let n = length (put_all align before (take i elements)) in n + padding align n

-- the offsets of the appended elements
abbrev pub places : ℕ → Text → List Text → List ℕ
places align before elements = map (place align before elements) (range_with_len 0 (length elements))
