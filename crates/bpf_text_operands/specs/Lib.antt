pub mod Stems
pub mod SignedNumbers
pub mod LabelTable
pub mod Operands
pub mod Statements
