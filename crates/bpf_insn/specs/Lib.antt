pub mod Opcode
pub mod FaultNumbers
pub mod CodecRefusal
pub mod Reading
pub mod SlotBytes
pub mod Spelling
