-- What one word of a record may hold, and which parts of an edge's flags break their rule.
pub mod Rules
pub mod Faults
