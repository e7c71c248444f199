pub mod PinBlock
pub mod CounterBlock
pub mod Answers
