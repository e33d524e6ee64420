pub mod FloatText
