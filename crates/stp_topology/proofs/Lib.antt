pub mod NamePlaces
pub mod RankLemmas
pub mod NameLemmas
pub mod PairLemmas
pub mod SoundLemmas
pub mod LineSound
pub mod TextLemmas
mod Rows
pub mod MarkLemmas
pub mod ChainLemmas
pub mod RankLaws
pub mod LawLemmas
pub mod TextSound
