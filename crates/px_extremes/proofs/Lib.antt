pub mod ExtremeRows
pub mod IntegerReductions
pub mod BooleanReductions
pub mod Positions
pub mod Named
