-- what is written, and when it is refused
pub mod Card
pub mod Refusals
pub mod Cases
-- what reading it comes to
pub mod Reading
-- bytes over a part of an output, for what the functions below promise each other
pub mod Laid
