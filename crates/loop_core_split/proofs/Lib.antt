pub mod SplitFacts
