pub mod Again
pub mod StopLists
pub mod ChannelTests
