mod Spellings
mod TellingLemmas
