pub mod DueLaws
pub mod TickLaws
