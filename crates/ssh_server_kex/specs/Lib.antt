pub mod ServerRows
pub mod ServerViews
pub mod ServerAnswers
