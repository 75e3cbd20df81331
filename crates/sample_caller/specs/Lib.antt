pub mod Fetcher
pub mod Files
pub mod Played
pub mod Watched
