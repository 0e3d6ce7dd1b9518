pub mod Lines
pub mod Systems
pub mod Tables
pub mod Laws
