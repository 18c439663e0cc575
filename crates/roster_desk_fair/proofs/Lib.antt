mod Lists
mod Sums
