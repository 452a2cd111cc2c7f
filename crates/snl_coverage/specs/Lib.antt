pub mod Coverage
pub mod Graphs
pub mod Pictures
pub mod Runners
pub mod Shapes
