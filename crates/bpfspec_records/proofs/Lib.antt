pub mod EachLaws
pub mod UnitLaws
