-- the columns of the matrix from what is lent
pub mod Columns
