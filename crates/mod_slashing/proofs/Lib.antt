mod AmountLemmas
mod BurntLemmas
mod StillLemmas
mod ToldLemmas
