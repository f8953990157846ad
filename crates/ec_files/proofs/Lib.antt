pub mod StatusCodes
pub mod TheoryTexts
pub mod CommandEnds
pub mod ToldFaults
pub mod Claims
pub mod Certified
