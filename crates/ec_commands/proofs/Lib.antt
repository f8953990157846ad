pub mod LineEnds
pub mod RelationLaws
