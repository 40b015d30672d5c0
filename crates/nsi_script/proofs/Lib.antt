pub mod SortLemmas
pub mod PlanLemmas
pub mod PlanLines
pub mod LabelLemmas
pub mod ActLemmas
pub mod DraftLemmas
pub mod TextLemmas
pub mod LoadLemmas
mod Rows
