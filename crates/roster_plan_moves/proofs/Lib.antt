mod Reassigned
