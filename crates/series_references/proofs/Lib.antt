pub mod HasLemmas
pub mod KeptLemmas
pub mod SlotLemmas
pub mod EntryLemmas
mod HeapLemmas
