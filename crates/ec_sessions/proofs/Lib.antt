mod DraftLists
mod AnsweredLines
mod Drafted
mod Revisions
mod Standings
mod StepCounts
mod StepLawProofs
mod Comparisons
pub mod PastQuestions
