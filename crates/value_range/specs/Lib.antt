pub mod Spans
pub mod SpanLaw
pub mod RefineRows
pub mod RefineLaw
pub mod AluRows
pub mod AluLaw
