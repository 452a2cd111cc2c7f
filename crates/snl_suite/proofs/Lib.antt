pub mod AgreementLaws
pub mod EscapedLaws
pub mod FittingLaws
