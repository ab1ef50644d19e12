pub mod AlphabetLemmas
pub mod DigitLemmas
pub mod OnLiterals
pub mod ResidueLemmas
pub mod SpellingLemmas
