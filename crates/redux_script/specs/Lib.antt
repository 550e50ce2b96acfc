pub mod Script
pub mod FaultAt
