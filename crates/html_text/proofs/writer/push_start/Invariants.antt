use Rattle.std.proofs.Common.{◌≡◌, ◌++◌, string_bytes, flat_map, take, codes}
use Rattle.html_text.specs.Html.{attribute_text, named, tag_name}
use Rattle.html_text.proofs.writer.push_start.Given as goal

abbrev pub invariant-loop-attribute : goal.invariant-loop-attribute
invariant-loop-attribute l = string_bytes l.text ≡ string_bytes l.fn.text ++ (codes "<" ++ tag_name l.fn.tag ++ flat_map attribute_text (named (take l.attribute-index l.fn.attributes)))
