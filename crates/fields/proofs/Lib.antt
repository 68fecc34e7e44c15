pub mod Meaning
pub mod Told
pub mod Row
pub mod RuleTurn
pub mod RuleReads
pub mod Uncounted
pub mod PictureAnswer
pub mod HeaderRow
