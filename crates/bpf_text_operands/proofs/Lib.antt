pub mod StemLaws
pub mod LabelLaws
pub mod MnemonicLaws
pub mod PlainLaws
pub mod ValueLaws
pub mod InsnBack
pub mod LineSlots
