pub mod ElementLaws
pub mod MapLists
pub mod StoreLaws
pub mod SizeLaws
