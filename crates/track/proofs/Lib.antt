pub mod Size
pub mod Within
pub mod Natural
pub mod Tracks
pub mod Together
pub mod Looking
pub mod OneAnswer
