pub mod FieldReads
pub mod MessageLaws
pub mod StandsLaws
pub mod NameSets
pub mod AnswersLaws
pub mod ServingLaws
pub mod ServiceEnds
pub mod Lemmas
