pub mod Printed
pub mod RecordLines
