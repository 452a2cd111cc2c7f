pub mod ApartLaws
pub mod ChannelLaws
pub mod ColumnLaws
pub mod ConstantLaws
pub mod DoerLaws
pub mod FactLaws
pub mod RefusedLaws
pub mod TouchLaws
