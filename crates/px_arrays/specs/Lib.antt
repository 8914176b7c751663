pub mod BitmapOf
pub mod IntegerArrayOf
pub mod StringArrayOf
