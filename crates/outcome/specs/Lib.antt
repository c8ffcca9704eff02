pub mod Outcomes
pub mod Lending
