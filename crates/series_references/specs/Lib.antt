pub mod Slots
pub mod ReferenceSlots
pub mod Has
pub mod Heap
pub mod HeapCode
pub mod Links
pub mod HeapFalls
pub mod References
