pub mod FlagLaws
pub mod PassLaws
pub mod StartLaws
pub mod CountLaws
pub mod OpLaws
pub mod StateLaws
