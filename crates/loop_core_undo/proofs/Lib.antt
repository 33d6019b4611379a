pub mod RunLaws
pub mod UndoLaws
pub mod RestoreLaws
pub mod ExchangeLaws
pub mod WatchedLaws
