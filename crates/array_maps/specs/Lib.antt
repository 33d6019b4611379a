pub mod Halves
pub mod Accesses
pub mod MapList
pub mod Store
