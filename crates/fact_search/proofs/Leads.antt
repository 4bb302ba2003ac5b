-- Where edges lead, and with which ticks.
pub mod Has
pub mod Goes
pub mod Said
pub mod Met
pub mod Keeps
