-- Lemmas on texts that are taken one after the other, and on texts within the limits.
pub mod Behind
pub mod Lengths
pub mod Literals
pub mod Within
