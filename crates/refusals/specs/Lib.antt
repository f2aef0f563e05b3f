-- What document 01 says of the check: the rules of "Refusals in order", their order, and what an accepted image keeps.
pub mod FirstBroken
pub mod Rules
pub mod Accepted
