pub mod BaseSample
pub mod HighWordsFirst
