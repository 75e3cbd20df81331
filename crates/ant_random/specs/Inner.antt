pub mod Jump
