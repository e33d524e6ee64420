-- HTML text in which the words that are written are no markup.
use Rattle.std.specs.Prelude.{◌≡◌, ℕ, ◌==◌, if◌then◌else◌, map, reverse, List, [], ◌∷◌, ◌++◌}
use Rattle.std.specs.List.{flat_map}
use Rattle.std.specs.Borrow.{Bor}
use Rattle.html_text.specs.declared.names.Tag.{Tag}
use Rattle.html_text.specs.declared.names.Tag.TheVariants as Tags
use Rattle.html_text.specs.declared.names.Attribute.{Attribute}
use Rattle.html_text.specs.declared.names.Attribute.TheVariants as Attributes
use lib.Chars.{codes}

-- a byte of words, as it is written between tags and in the values of attributes: `&`, `<`, `>`, `"` and `'` as character references
abbrev pub escaped_byte : ℕ → List ℕ
escaped_byte byte =
    if byte == 38 then codes "&amp;"
    else (if byte == 60 then codes "&lt;"
    else (if byte == 62 then codes "&gt;"
    else (if byte == 34 then codes "&quot;"
    else (if byte == 39 then codes "&#39;"
    else byte ∷ []))))

-- the bytes of words, one after another
abbrev pub escaped : List ℕ → List ℕ
escaped words = flat_map escaped_byte words

-- the name of an element
abbrev pub tag_name : Tag → List ℕ
tag_name Tags.Html = codes "html"
tag_name Tags.Head = codes "head"
tag_name Tags.Meta = codes "meta"
tag_name Tags.Title = codes "title"
tag_name Tags.Style = codes "style"
tag_name Tags.Body = codes "body"
tag_name Tags.Main = codes "main"
tag_name Tags.Section = codes "section"
tag_name Tags.H1 = codes "h1"
tag_name Tags.H2 = codes "h2"
tag_name Tags.P = codes "p"
tag_name Tags.Span = codes "span"
tag_name Tags.Ul = codes "ul"
tag_name Tags.Li = codes "li"
tag_name Tags.Code = codes "code"
tag_name Tags.Figure = codes "figure"
tag_name Tags.Figcaption = codes "figcaption"
tag_name Tags.Div = codes "div"
tag_name Tags.Details = codes "details"
tag_name Tags.Summary = codes "summary"
tag_name Tags.Table = codes "table"
tag_name Tags.Thead = codes "thead"
tag_name Tags.Tbody = codes "tbody"
tag_name Tags.Tr = codes "tr"
tag_name Tags.Th = codes "th"
tag_name Tags.Td = codes "td"
tag_name Tags.Svg = codes "svg"
tag_name Tags.Desc = codes "desc"
tag_name Tags.Rect = codes "rect"
tag_name Tags.Path = codes "path"

-- the name of an attribute
abbrev pub attribute_name : Attribute → List ℕ
attribute_name Attributes.Lang = codes "lang"
attribute_name Attributes.Charset = codes "charset"
attribute_name Attributes.Name = codes "name"
attribute_name Attributes.Content = codes "content"
attribute_name Attributes.Class = codes "class"
attribute_name Attributes.Id = codes "id"
attribute_name Attributes.Role = codes "role"
attribute_name Attributes.LabelledBy = codes "aria-labelledby"
attribute_name Attributes.Scope = codes "scope"
attribute_name Attributes.ViewBox = codes "viewBox"
attribute_name Attributes.AspectRatio = codes "preserveAspectRatio"
attribute_name Attributes.X = codes "x"
attribute_name Attributes.Y = codes "y"
attribute_name Attributes.Width = codes "width"
attribute_name Attributes.Height = codes "height"
attribute_name Attributes.D = codes "d"

-- What a page is written of: the start of an element, with attributes; a whole element without content and end; words; and the end of an element.
pub data Token : Type 0 where
  Start : Tag → List (Attribute × List ℕ) → Token
  Single : Tag → List (Attribute × List ℕ) → Token
  Words : List ℕ → Token
  End : Tag → Token

-- ` NAME="VALUE"`
abbrev pub attribute_text : Attribute × List ℕ → List ℕ
attribute_text a = codes " " ++ attribute_name a.0 ++ codes "=\"" ++ escaped a.1 ++ codes "\""

-- attributes, each a name and a value behind a reference
abbrev pub named : List (Attribute × Bor (List ℕ)) → List (Attribute × List ℕ)
named attributes = map (λ (a : Attribute × Bor (List ℕ)). (a.0, a.1.now)) attributes

-- `<NAME ATTRIBUTES>`
abbrev pub start_text : Tag → List (Attribute × List ℕ) → List ℕ
start_text tag attributes = codes "<" ++ tag_name tag ++ flat_map attribute_text attributes ++ codes ">"

-- `</NAME>`
abbrev pub end_text : Tag → List ℕ
end_text tag = codes "</" ++ tag_name tag ++ codes ">"

-- the ends of all these elements, the last one first
abbrev pub ends_text : List Tag → List ℕ
ends_text around = flat_map end_text (reverse around)

abbrev pub token_text : Token → List ℕ
token_text (Start tag attributes) = start_text tag attributes
token_text (Single tag attributes) = start_text tag attributes
token_text (Words words) = escaped words
token_text (End tag) = end_text tag

-- A page of these tokens has these elements open, the last one at the end. Only the last one may end.
pub data Opens : List Token → List Tag → Type 0 where
  none : Opens [] []
  start : (ts : List Token) (around : List Tag) (tag : Tag) (attributes : List (Attribute × List ℕ)) → Opens ts around → Opens (ts ++ Start tag attributes ∷ []) (around ++ tag ∷ [])
  single : (ts : List Token) (around : List Tag) (tag : Tag) (attributes : List (Attribute × List ℕ)) → Opens ts around → Opens (ts ++ Single tag attributes ∷ []) around
  words : (ts : List Token) (around : List Tag) (words : List ℕ) → Opens ts around → Opens (ts ++ Words words ∷ []) around
  end : (ts : List Token) (around : List Tag) (tag : Tag) → Opens ts (around ++ tag ∷ []) → Opens (ts ++ End tag ∷ []) around

-- the text of a page so far, and the elements around what comes next, the last one at the end
pub record Written : Type 0 where
  pub text : List ℕ
  pub around : List Tag

-- the line before the first element
abbrev pub first_line : List ℕ
first_line = codes "<!DOCTYPE html>\n"

-- The text is the first line, and that of some tokens, of which these elements are around.
pub record IsWritten (w : Written) : Type 0 where
  pub tokens : List Token
  pub opens : Opens tokens w.around
  pub is : w.text ≡ first_line ++ flat_map token_text tokens

-- The text is that of a page: each element that begins ends, inside the one that it began in, and all else are tags and words without markup.
abbrev pub IsPage : List ℕ → Type 0
IsPage text = IsWritten (record { text = text; around = [] })
