pub mod ListLaws
pub mod ConflictLaws
pub mod SurveyLaws
pub mod ExplainLaws
pub mod CauseLaws
pub mod CallLaws
